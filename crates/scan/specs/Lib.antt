-- Bytes read from lent buffers. Read beside 01 (A sheet line):
--   Decimal   which bytes are a number
--   Find      where a byte stands first
--   Fields    the fields between tabs, and bytes that are a word
--   Numbers   so many numbers from fields
pub mod Decimal
pub mod Find
pub mod Fields
pub mod Numbers
pub mod Code
