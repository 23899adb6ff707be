-- What the rounds' contracts cite beside the model's definitions.
--     Scan    the problem of a scan
--     Ready   what rounds ask
--     Left    what quick rounds leave in the buffers
pub mod Scan
pub mod Ready
pub mod Left
