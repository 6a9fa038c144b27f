-- The array's matrices and their rows.
pub mod Matrices
