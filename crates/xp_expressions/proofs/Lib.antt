mod Forms
mod Gathering
mod Halves
mod Filled
