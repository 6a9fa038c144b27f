-- Bytes written into lent buffers. Read beside 01 (Points and units; A sheet line):
--   Decimal   a number in digits
--   Lines     the bytes of a line
--   Words     signed numbers of eight bytes
--   Fitting   what a write leaves that must fit whole
pub mod Decimal
pub mod Lines
pub mod Words
pub mod Fitting
pub mod Code
