mod Edits
mod Reacted
