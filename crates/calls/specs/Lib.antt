-- What the calls' contracts cite beside the model's definitions.
--     Ready   what the figures ask
--     Slack   how large a slack can be
pub mod Ready
pub mod Slack
