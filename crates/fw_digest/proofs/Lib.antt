pub mod DigestFacts
