pub mod Diagnoses
pub mod Courses
pub mod Taken
