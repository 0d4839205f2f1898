pub mod Widths
pub mod Table
pub mod ClassList
pub mod Classes
pub mod Firsts
pub mod Both
pub mod Limits
