mod Members
mod Pushing
mod Rising
mod Settling
mod Answering
