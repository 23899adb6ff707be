-- The laws of reading a season.
--     Buffers   a window's bytes when more come
--     Steps     a step: behind a job that was counted, with more bytes at hand, or to the season's end
--     Loop      what the loop over the jobs keeps
pub mod Buffers
pub mod Steps
pub mod Loop
