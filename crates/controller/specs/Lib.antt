-- What the C calls hand back and write.
pub mod Record
