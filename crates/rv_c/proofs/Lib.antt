mod Runs
mod Verdicts
