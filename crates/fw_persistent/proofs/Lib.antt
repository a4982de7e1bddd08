mod Middle
mod Places
