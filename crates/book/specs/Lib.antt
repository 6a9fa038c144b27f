-- The account book of two institutes (02, E10). Read beside the request in this order:
--   Book   the balances and their opening
--   Call   one call: who calls, what is answered, what it costs, and which book it leaves
--   Run    calls one after the other, and what is proved of every run
pub mod Book
pub mod Call
pub mod Run
pub mod Code
