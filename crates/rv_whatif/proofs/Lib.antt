mod Judging
mod Looking
