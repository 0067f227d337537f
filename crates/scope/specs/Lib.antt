-- Document 01 as definitions, a file a section. What a reader must believe is this folder and the answers of src/lib.rt,
-- with the kit's own numbers, lists and floats (lib.ListN, lib.Dec, lib.Ieee).
pub mod Lists
pub mod Answers
pub mod Cells
pub mod Walk
pub mod Table
pub mod CellLists
pub mod Standing
pub mod Afresh
pub mod Memory
pub mod Rules
pub mod UnionFind
pub mod Pool
pub mod Area
pub mod Order
pub mod Calls
pub mod Demands
pub mod Bytes
