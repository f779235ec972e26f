-- The synod: majorities, ballots, packets, acceptors (Paxos Made Simple).
pub mod Lists
pub mod Majority
pub mod Ballot
pub mod OneSlot
pub mod Packet
pub mod Acceptor
