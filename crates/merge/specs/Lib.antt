-- Two sheets merged into one (02, E4). Read beside the request, over the lines of a sheet in `stream`:
--   Merge   the choice at a pair of lines, the merge of two lists of lines
--   Call    what a step hands back, and what the call gives and writes
pub mod Merge
pub mod Call
pub mod Code
