-- The octets of a pcap file.
pub mod Packets
pub mod Promises
