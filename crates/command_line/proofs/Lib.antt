-- For the reader: help wherever it is asked for, a line of files alone, both files of what is ready, and command lines by example.
pub mod HelpAnywhere
pub mod FilesAlone
pub mod BothFiles
pub mod Examples
