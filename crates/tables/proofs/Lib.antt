-- What the engines cite of the tables
pub mod Promises
-- For the code: how it finds an entry of a row, and a cell; and that it can work out the cell's reciprocal
pub mod Signs
pub mod Cells
pub mod Division
