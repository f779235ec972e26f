mod Crossing
mod Begun
mod Handing
