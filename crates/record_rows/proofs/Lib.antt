mod Spots
