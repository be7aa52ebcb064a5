mod Counting
mod Looking
mod Places
mod Seeing
