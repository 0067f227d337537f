-- The worked examples of document 01
pub mod Computing
pub mod ExampleKinds
pub mod ExampleTest
pub mod Seven
pub mod Odd
pub mod Mixed
pub mod MoreExamples
pub mod Examples
pub mod ByteExamples
