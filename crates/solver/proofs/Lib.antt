-- Laws of rounds in buffers.
--     Passes         what the passes of a round ask and keep
--     QuickRound     a quick round in buffers is the model's
--     QuickBounds    how large the numbers of quick rounds are
--     QuickRounds    quick rounds in buffers, one after another
--     SteadyRounds   steady rounds in buffers, one after another
pub mod Passes
pub mod QuickRound
pub mod QuickBounds
pub mod QuickRounds
pub mod SteadyRounds
