mod Datagrams
mod Frames
mod Framing
mod Looking
mod PairReads
mod Passing
mod Sets
