-- Why: what one call gives, and what holds of every run.
--   Calls   what an answered call costs at least; the cases of a call, for the code; what a reply says of the answer
--   Runs    the laws of runs that specs/Run states
pub mod Calls
pub mod Runs
