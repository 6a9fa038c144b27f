-- Hold: every case of the table holds, by one statement. Quoted: the first line of the run that 01 quotes.
pub mod Hold
pub mod Quoted
