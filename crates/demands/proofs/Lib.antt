pub mod Agreeing
pub mod Least
pub mod Standing
pub mod Showing
pub mod Accepting
pub mod Answering
pub mod Records
pub mod Handing
pub mod Marking
pub mod Asking
mod Alike
mod Drafts
pub mod Unlined
pub mod Flat
pub mod Demands
