-- Why: what is handed over is what a call answers.
pub mod Call
