-- Lines of a sheet. Read beside 01 (A sheet line; Turned away), over the specs of the crates buffer and scan:
--   Line     which bytes are a line, and what it asks
--   Answer   what a line is answered: the refusal, the count and every byte of the buffer
pub mod Line
pub mod Answer
pub mod Code
