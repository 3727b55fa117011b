mod Few
mod Lifted
