pub mod Asked
pub mod Listed
pub mod Texts
pub mod Sessions
pub mod Course
pub mod Laws
pub mod Worked
