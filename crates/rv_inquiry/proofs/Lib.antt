mod Adding
mod Asking
