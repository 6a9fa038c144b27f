-- Which lines stop a merge.
--   Named     a step at a time, and THE LAWS: the refusal is the merge's; it names a line; that line is there
--   Example   small sheets, computed
pub mod Named
pub mod Example
