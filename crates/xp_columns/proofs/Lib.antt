mod Turning
mod Widths
mod Listing
