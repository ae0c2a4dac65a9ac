pub mod Hand
pub mod Numbers
