-- The reciprocals, the numbers of the two tables of logarithms, and what is promised of these. The crates `step_table`,
-- `step_array` and `reciprocal_table` have the numbers in code, and `tables` hands them out. Read beside 01 (The step; LOG, Seat) in this order.
-- The promise: all that the engines know of a table
pub mod Reciprocal
pub mod Window
pub mod Promise
-- The numbers at the width 48: as lists, which tests/tables/generate.py writes, and as functions
pub mod Listed
pub mod Numbers48
pub mod Cell
pub mod Table
-- The same as code has them
pub mod Rows
