-- Why: the laws of reading, and what serves the code.
--   Read      a written number is read as itself, and what is read as a number is that number written
--   Joined    parts joined by a mark are split into the same parts, and a written number has no mark in it
--   Find, Fields, Numbers, Scan, Tab    the reader's way
pub mod Find
pub mod Fields
pub mod Numbers
pub mod Read
pub mod Scan
pub mod Joined
pub mod Tab
