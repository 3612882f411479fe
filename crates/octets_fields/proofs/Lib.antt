mod Endings
mod Places
