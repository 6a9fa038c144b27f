-- Why nothing is lost, over any width F up to 52 (one is 2^F units; 01 has F = 48).
--   Value     the value of a written double; a value has one double; the code's division makes it, and its multiplication undoes it
--   Reading   which doubles are accepted; for one number, writing and reading undo each other
--   Tests     the code's way decides that: product, two tests, the cut, the count written again and its bits compared
--   Found     the same as the code meets it: its constants, and what it finds of one double and of two
--   Kept      LOG's record loses nothing and is read back; what is read is written back, bit for bit
--   Cases     patterns of bits, computed
pub mod Value
pub mod Reading
pub mod Tests
pub mod Found
pub mod Kept
pub mod Cases
