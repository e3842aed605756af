-- Words that only private contracts and laws need.
pub mod Analyses
pub mod Arms
pub mod Printing
pub mod Reading
pub mod Turns
pub mod Usable
pub mod Worked
pub mod Writing
