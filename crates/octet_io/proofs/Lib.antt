pub mod KnownOctets
