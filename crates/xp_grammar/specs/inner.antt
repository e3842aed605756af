-- What a reader need not believe: the laws join it to the table and to what is derived.
pub mod Machine
pub mod Tries
