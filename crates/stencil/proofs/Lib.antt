-- Laws of one pixel or pair.
--     Readings    a reading is within the limits of the passes
--     Steps       a stepped number's size
pub mod Readings
pub mod Steps
