mod Read
mod Carried
