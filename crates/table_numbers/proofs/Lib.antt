-- That the numbers keep the promise, and more: each is the nearest unit.
-- The promise of a whole table, and an entry's size, which follows from it
pub mod Promises
pub mod EntrySize
-- A stronger statement, which no engine needs: each number is the nearest
pub mod Nearest
-- How a test at 24 terms shows each of the two, at any width
pub mod RuleTest
pub mod Kept
pub mod SignTest
pub mod NearestTest
-- The numbers at the width 48 pass both
pub mod TableLaws
pub mod Promise48
pub mod Nearest48
-- For the code: rows, cells and what is handed out
pub mod Match
pub mod DigitPlaces
pub mod RowLaws
pub mod Promised
