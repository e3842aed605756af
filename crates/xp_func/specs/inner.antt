pub mod ExactAt
