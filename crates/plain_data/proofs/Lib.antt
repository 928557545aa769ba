pub mod Lists
mod Numerals
