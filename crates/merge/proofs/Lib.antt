-- Why the merge is what the request says, and what serves the code.
--   Rules     the merge as rules: what a choice tells of the lines in front, and the lines taken one after the other
--   Laws      THE LAWS: the serials rise; every line is there, and nothing else; which sheets are merged
--   Order     which sheet comes first does not matter where no serial stands in both
--   Follows   the rest of the one sheet that has lines left follows as a whole
--   Again     the merged sheet read again: its lines are those merged, and the program answers none with 7
--   Turn      a step at a time
--   Sure      a line that does not stop a merge
--   Found     the first line, and what is behind it, as the search for a newline finds them
--   Written   what the writing pass leaves
--   Call      the call's equations
--   Example   small sheets, computed
pub mod Rules
pub mod Laws
pub mod Order
pub mod Follows
pub mod Again
pub mod Turn
pub mod Found
pub mod Sure
pub mod Written
pub mod Call
pub mod Example
