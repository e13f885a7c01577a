-- Which file proves which clause; clauses that aren't here are proved with no file.
--   read_all: whole, fits, taken, too_long   transfer/read_all/Invariants
--   write_all: ok, err                       transfer/write_all/Invariants, transfer/write_all/Answers, BytesLemmas
--   CountTokens, words: draw                 count_tokens/CountTokensTokens/words/Answers, ToldLemmas
--   DeviceTokens, word                       device_tokens/word/Answers
--   StepClock, now: reading                  step_clock/StepClockClock/now/Answers, ToldLemmas
--   PlainKeeper, results within the limits   plain_keeper/fits/Invariants, plain_keeper/rows_of/Invariants
--   PlainKeeper, the two laws of meanings    specs/PlainMeaning
pub mod BytesLemmas
pub mod ToldLemmas
