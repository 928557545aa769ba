pub mod Chained
mod Colons
mod Cuts
mod DelayLemmas
mod FadeGains
mod Lines
mod Made
mod Samples
mod Slopes
mod Values
mod Written
