mod Stuck
