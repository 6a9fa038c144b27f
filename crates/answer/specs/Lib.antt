-- What both operations answer: refusals with their numbers, the eight numbers of an answer's record, and how small the remainder is. Read
-- beside 01 and 02, E7, in this order.
pub mod Answer
pub mod Refusal
pub mod Record
pub mod Remainder
