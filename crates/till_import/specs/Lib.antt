-- What an import leaves.
pub mod Imports
