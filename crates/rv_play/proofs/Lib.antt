mod Beginning
mod Carrying
mod Growing
mod Named
mod Performing
mod Reading
mod Scripting
mod Telling
