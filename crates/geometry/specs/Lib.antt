pub mod Segment
pub mod Placement
pub mod Polylines
pub mod Courses
pub mod Steps
